pub mod LineLemmas
pub mod Named
pub mod PlanOfNames
pub mod Reading
