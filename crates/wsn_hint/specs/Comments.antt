-- What the comments of a capture say of its handshake: an HTTP request and its answer (RFC 6455 section 4).
use Rattle.std.specs.Prelude.{◌≡◌, ◌⊎◌, ℕ, List, [], ◌∷◌, codes}
use Rattle.memchr.specs.Find.{OccursAt}
use Rattle.wsn_rules.specs.TextLines.{lines_of}
use Rattle.wsn_rules.specs.Entries.{without_cr}
use Rattle.wsn_hint.specs.Hints.{Begins}
use Rattle.wsn_hint.specs.declared.comments.Said.{Said, TheVariants.{Answer, Compression, WrongAnswer}}

-- The word is in the line.
abbrev pub HasWord : List ℕ → List ℕ → Type 0
HasWord line word = (place : ℕ) × OccursAt line word place

-- The line says that the answer's Sec-WebSocket-Accept is wrong.
abbrev pub IsWrongAccept : List ℕ → Type 0
IsWrongAccept line = without_cr line ≡ codes "# accept is wrong"

-- The line says that the answer chose a subprotocol or an extension that the request didn't offer.
abbrev pub IsUnoffered : List ℕ → Type 0
IsUnoffered line =
    (Begins (codes "# subprotocol ") line ⊎ Begins (codes "# extension ") line)
    × HasWord line (codes " was not offered")

-- The line says this of the handshake: what the answer's status line is; that its extensions are compression among
-- others (RFC 7692); or why the client must fail the connection (RFC 6455 section 4.1).
abbrev pub Says : Said → List ℕ → Type 0
Says Answer line = Begins (codes "# answer: ") line
Says Compression line = Begins (codes "# extensions: ") line × HasWord line (codes "permessage-deflate")
Says WrongAnswer line = IsWrongAccept line ⊎ IsUnoffered line

-- One of the lines says this.
abbrev pub HasSaid : Said → List (List ℕ) → Type 0
HasSaid said [] = ⊥
HasSaid said (line ∷ lines) = Says said line ⊎ HasSaid said lines

-- A line of the text says this.
abbrev pub IsSaid : Said → List ℕ → Type 0
IsSaid said text = HasSaid said (lines_of text)
