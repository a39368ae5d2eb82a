pub mod Numbers
pub mod Report
pub mod Ending
pub mod Text
pub mod Listing
