pub mod Requests
pub mod Responses
pub mod ReadingHeads
pub mod Probes
pub mod Admissions
pub mod InnerProbes
pub mod InnerAdmissions
