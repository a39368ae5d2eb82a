pub mod CardLemmas
pub mod CardRead
pub mod FaultLemmas
pub mod FieldLemmas
pub mod ReadLemmas
