-- Piles, from what every pile does to the piles that there are.
-- Sets: what a pile holds, a put and a draw. Shapes: what every pile shows, and chains of puts and draws. Moves: one pile emptied into another.
-- Lists: what a lent list holds. Tables: the pile of marks. Chains, Orders: the ring. Records, Logs: what a log keeps, and what it shows.
pub mod Sets
pub mod Shapes
pub mod Moves
pub mod Lists
pub mod Tables
pub mod Chains
pub mod Orders
pub mod Records
pub mod Logs
