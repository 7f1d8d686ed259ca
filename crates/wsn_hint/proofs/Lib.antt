mod Alternatives
mod CommentLines
mod EarlyVerdicts
mod FirstFits
mod HeadsSent
mod LineStarts
mod SideFits
mod SentBytes
