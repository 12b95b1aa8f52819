pub mod ScanLemmas
pub mod MemberLemmas
pub mod NeedsLemmas
pub mod FirstLemmas
