mod WorkLemmas
mod ShareLemmas
mod GatherLemmas
mod WholeLemmas
mod JobLemmas
