use Rattle.std.specs.Prelude.{false, None}
use Rattle.std.proofs.Common.{List, ℕ, [], refl, subst, arith, rules}
use Rattle.wsn_io.specs.Transfer.{Incoming}
use Rattle.wsn_frame.proofs.HeadsAtOnce.{no_items}
use Rattle.wsn_scan.specs.ChunkReaders.{HasCounted}
use Rattle.wsn_scan.specs.Positions.{BetweenFrames}
use Rattle.wsn_scan.proofs.Unrefused.{unrefused_first}
use Rattle.wsn_scan.proofs.frame_reader.FrameReader.new.Goals as goal

-- an input of which nothing came
abbrev nothing : Incoming
nothing = record { remaining = None; count = 0; failed = false; lent = false }

pub returns : goal.returns
returns c =
    let come = c.new-2.ensures nothing refl in
    let none = no_items come.past (let counted = come.consumed.counted in omega (arith, counted)) in
    record {
      scanned = [];
      since = [];
      has_scanned = c.new.ensures;
      unrefused = unrefused_first c.args.role c.args.limits c.new.result [] (record { frames = []; since = []; position = BetweenFrames; has_scanned = c.new.ensures; heads_are = refl });
      buffered = record {
        past = [];
        whole = refl;
        counted = subst (λ (bs : List ℕ). HasCounted c.args.limits c.new-2.result [] bs) none come.counted;
        few = omega arith;
        small = omega arith;
        in_bytes = tt;
      };
    }

pub invariant_of-result : goal.invariant_of-result
invariant_of-result c = search rules
