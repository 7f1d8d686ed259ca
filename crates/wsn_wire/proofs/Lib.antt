pub mod ByteLemmas
pub mod FrameLemmas
pub mod HeadLemmas
pub mod MaskLemmas
