mod KeptValueLemmas
mod PairRunLemmas
