-- The words of every lent table, the file's own row, the program's rows that have these words, tables with other names.
pub mod Words
pub mod FileRows
pub mod Shown
pub mod Named
