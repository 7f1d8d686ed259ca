pub mod HeadsAtOnce
pub mod PayloadRows
pub mod FrameStarts
pub mod PayloadBytes
pub mod PayloadMore
pub mod FramesAtOnce
pub mod CountedFrames
pub mod CountedKinds
