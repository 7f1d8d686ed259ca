-- The body of a Close. RFC 6455 sections 5.5.1 and 7.4; the codes 1012 to 1014 are from the IANA registry.
use Rattle.std.specs.Prelude.{◌≡◌, ℕ, ◌≤◌, ◌⊎◌, List, [], ◌++◌}
use Rattle.std.specs.Int.{to_be_bytes, w16}
use Rattle.wsn_text.specs.Utf8.{IsText}

-- A Close may have this code.
abbrev pub IsAcceptedCode : ℕ → Type 0
IsAcceptedCode code =
    ((1000 ≤ code) × (code ≤ 1003)) ⊎ (((1007 ≤ code) × (code ≤ 1014)) ⊎ ((3000 ≤ code) × (code ≤ 4999)))

-- The body is empty; or it is an accepted code in two bytes, the higher first, and a reason in UTF-8.
abbrev pub IsCloseBody : List ℕ → Type 0
IsCloseBody body =
    (body ≡ []) ⊎ ((code : ℕ) × (reason : List ℕ) × IsAcceptedCode code × IsText reason ×
    (body ≡ to_be_bytes w16 code ++ reason))
