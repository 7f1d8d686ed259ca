-- A text that was written, or a prefix of it.
use Rattle.std.proofs.Common.{◌≡◌, ℕ, true, false, List, ◌++◌, take, inl, inr, sym, ◌∙◌}
use Rattle.std.proofs.KnownBytes.{Appends-trans}
use Rattle.std.specs.Io.KnownBytes.{Appends}
use Rattle.wsn_io.specs.Transfer.{Outgoing, IsWritten, IsPartlyWritten, IsWrittenUpToFailure}

-- If no write failed, all of it.
pub whole_part : (before after : Outgoing) (text : List ℕ) → after.failed ≡ false → IsWrittenUpToFailure before after text → IsWritten before after text
whole_part before after text works (inl written) = written
whole_part before after text works (inr partly) = let both : true ≡ false = sym partly.0 ∙ works in cc

-- If one failed, a prefix.
pub failed_part : (before after : Outgoing) (text : List ℕ) → after.failed ≡ true → IsWrittenUpToFailure before after text → IsPartlyWritten before after text
failed_part before after text failed (inl written) = let both : true ≡ false = sym failed ∙ written.0 in cc
failed_part before after text failed (inr partly) = partly

-- What was written after another text.
pub more_after : (first now after : Outgoing) (text more : List ℕ) → IsWritten first now text → IsWrittenUpToFailure now after more → (rest : List ℕ) × Appends first.written after.written (text ++ rest)
more_after first now after text more wrote (inl went) = (more, Appends-trans first.written now.written after.written text more wrote.1 went.1)
more_after first now after text more wrote (inr part) = (take part.1.0 more, Appends-trans first.written now.written after.written text (take part.1.0 more) wrote.1 part.1.1)
