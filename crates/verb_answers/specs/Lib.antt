pub mod Reports
pub mod Slack
pub mod Answers
pub mod Stops
pub mod RunReports
pub mod Objective
pub mod RightHandSide
