pub mod Short
mod Readers
mod Grammar
mod Tests
mod Judged
mod Walked
mod Never
mod Longer
mod LongGrammar
mod Refused
