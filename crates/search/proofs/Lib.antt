-- The search over numbers gives the model's answer, and the laws that code's proofs cite.
pub mod Best
pub mod Search
pub mod Values
pub mod Records
