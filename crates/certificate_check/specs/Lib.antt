pub mod Results
pub mod Listed
