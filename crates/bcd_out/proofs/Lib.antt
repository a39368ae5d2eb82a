mod InTurn
mod Texts
