use Rattle.std.proofs.Common.{refl, inl, inr, [], ◌∷◌, ◌++◌, codes}
use Rattle.hex.specs.Hex.{decode_pairs}
use Rattle.wsn_wire.specs.declared.endpoint.Role.TheVariants.{Client, Server}
use Rattle.wsn_laws.proofs.ComputedReports.{given_bytes}
use Rattle.wsn_laws.proofs.capture_examples.entries.Goals as goal

pub returns : goal.returns
unfolding decode_pairs
returns c = record {
  client_bytes = given_bytes Client 56 (codes "180") (0x81 ∷ 0x80 ∷ []) refl;
  server_bytes = given_bytes Server 56 (codes "100") (0x81 ∷ 0x00 ∷ []) refl;
  all_digits = given_bytes Server 48 (codes "123456789") (0x01 ∷ 0x23 ∷ 0x45 ∷ 0x67 ∷ 0x89 ∷ []) refl;
  lower_case = given_bytes Client 97 (codes "bcdef") (0xab ∷ 0xcd ∷ 0xef ∷ []) refl;
  upper_case = given_bytes Client 65 (codes "BCDEF") (0xab ∷ 0xcd ∷ 0xef ∷ []) refl;
  either_case = given_bytes Server 97 (codes "BcD") (0xab ∷ 0xcd ∷ []) refl;
  client_mark = refl;
  server_mark = refl;
  comment = inr (codes " C 81", refl);
  short_comment = inr ([], refl);
  empty = inl refl;
  cr = inl refl;
  bytes_and_cr = given_bytes Client 56 (codes "180") (0x81 ∷ 0x80 ∷ []) refl;
  mark_and_cr = refl;
  comment_and_cr = inr (codes " S." ++ 13 ∷ [], refl);
}
