pub mod Echoes
pub mod EchoMachines
pub mod EchoLaws
pub mod InnerEchoing
