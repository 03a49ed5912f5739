mod FrontLemmas
mod PenLemmas
mod Steps
