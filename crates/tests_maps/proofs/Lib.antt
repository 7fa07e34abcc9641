pub mod PairTails
