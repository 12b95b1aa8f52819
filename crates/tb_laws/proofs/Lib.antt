pub mod OneByOneLemmas
pub mod OrderedLemmas
pub mod WellFormedLemmas
pub mod JournalLemmas
pub mod ItemsLemmas
pub mod SameStateLemmas
mod ExampleLemmas
mod HindranceExampleLemmas
pub mod NeedersLemmas
pub mod CausesLemmas
pub mod NextStepLemmas
