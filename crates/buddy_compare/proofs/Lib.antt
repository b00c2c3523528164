mod Verdicts
mod Walking
