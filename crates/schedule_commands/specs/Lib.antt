pub mod LeastTurns
