-- Lists of indexes.
pub mod Members
pub mod Ranges
pub mod MemberLaws
