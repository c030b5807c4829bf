pub mod TimesLists
pub mod TimesRead
pub mod PairLists
pub mod OneWays
pub mod PairsRead
