mod TurnLemmas
mod FairnessLemmas
mod StepLemmas
mod HistoryLemmas
mod WakingLemmas
mod KeptTaskLemmas
