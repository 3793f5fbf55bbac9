pub mod Ones
pub mod Planned
pub mod PlanOf
pub mod Inner
