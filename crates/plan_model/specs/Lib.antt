-- The definitions of the plan, which the contracts of crates minutes, hours, plans and exports cite: Hours, of request
-- 2.7, and SmallPlans with its examples.
pub mod Hours
pub mod SmallPlans
