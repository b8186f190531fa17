pub mod WordClasses
