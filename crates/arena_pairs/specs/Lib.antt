pub mod PairSteps
