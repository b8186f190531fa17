mod TableLemmas
mod ClassLemmas
mod InsertionLemmas
mod UnionLemmas
mod RemovalLemmas
mod CallLemmas
mod EquationLemmas
