pub mod LinRows
pub mod LinkRows
pub mod MeanRows
pub mod ClauseRows
pub mod NamedRows
