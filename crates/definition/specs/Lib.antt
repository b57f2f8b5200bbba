-- What the controller does, in the order of document 01: this is what a reader has to believe.
pub mod Bytes
pub mod Reply
pub mod Segment
pub mod Names
pub mod Request
pub mod Tables
pub mod Types
pub mod Lookup
pub mod Valid
pub mod Resolve
pub mod Access
pub mod Fragment
pub mod Read
pub mod Write
pub mod Masked
pub mod Template
pub mod Attributes
pub mod Page
pub mod Symbols
pub mod Envelope
pub mod Answer
pub mod Entry
-- Which rule broken tables are told, how masks are joined, and what is promised of these and of all the above.
pub mod Breach
pub mod Told
pub mod Joined
pub mod Promises
-- For proofs and examples: they define nothing of the controller.
pub mod Computed
pub mod Pallet
