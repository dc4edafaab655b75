-- Worked examples of the definitions, by computation. What calls answer is in the scripts of
-- `piper_compare`.
mod Lends
mod Gone
mod BySteps
mod Steps
mod Known
mod HonestEnd
mod Waiters
mod ToldEnd
mod Fronts
mod Stops
mod WhatCallsAnswer
