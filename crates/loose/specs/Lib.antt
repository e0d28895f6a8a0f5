-- What the contracts of calls on plans cite.
pub mod PlanOf
