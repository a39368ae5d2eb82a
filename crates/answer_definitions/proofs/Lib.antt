mod Rows
mod Reports
