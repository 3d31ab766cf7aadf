mod Arms
mod Sound
mod Complete
mod Theorem
mod Loop
