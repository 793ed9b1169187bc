pub mod Units
pub mod RuleExamples
pub mod Programs
pub mod RunExamples
pub mod ChipExamples
pub mod WordExamples
