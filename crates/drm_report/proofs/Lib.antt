mod ReplyLemmas
mod WorkerLemmas
mod OneCallerLemmas
mod NumberedLemmas
mod KeyLemmas
mod RangeLemmas
mod GatherLemmas
mod PlannedLemmas
