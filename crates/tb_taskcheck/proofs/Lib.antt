mod LineLemmas
mod FoundLemmas
mod ReadLemmas
mod WalkLemmas
mod ReportLemmas
mod LegalLemmas
