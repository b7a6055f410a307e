pub mod CostLemmas
pub mod EventLemmas
pub mod GraphLemmas
pub mod MarkLemmas
pub mod PathLemmas
