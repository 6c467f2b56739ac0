pub mod InnerMarks
pub mod InnerKinds
pub mod InnerStages
pub mod InnerJoining
