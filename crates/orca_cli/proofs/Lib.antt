mod TextBehind
mod Written
mod SummedUp
mod Promises
mod Worked
