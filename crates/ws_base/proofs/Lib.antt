-- What bytes with zeros behind them are.
mod Padded
