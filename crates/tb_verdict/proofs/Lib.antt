mod NumberedLemmas
mod RefusalLemmas
mod FollowLemmas
mod UnrefusedLemmas
mod ValueLemmas
mod HeldLemmas
pub mod WholeLemmas
mod UnendedLemmas
pub mod RecordedLemmas
