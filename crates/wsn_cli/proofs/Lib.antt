mod EscapedCharacters
mod HexDigits
mod NegativeNumbers
