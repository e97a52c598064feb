mod JoinLemmas
mod LineLemmas
mod SizeLemmas
