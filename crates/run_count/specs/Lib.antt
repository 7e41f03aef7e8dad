-- Tables of a run: how often each gap is passed.
pub mod Times
