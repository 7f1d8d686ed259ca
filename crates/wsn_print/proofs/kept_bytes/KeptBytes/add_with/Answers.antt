use Rattle.std.proofs.Common.{◌≡◌, ℕ, ◌+◌, ◌-◌, ◌≤◌, List, ◌++◌, length, take, drop, refl, sym, ap, ◌∙◌, arith, take-take, length-take-le, length-drop}
use Rattle.std.proofs.Math.Seq.{take-append-add}
use Rattle.std.proofs.lemmas.Slice.{take-put_mid}
use borrow.Rule.Slice.PartMut.{put_mid}
use Rattle.std.specs.Fn.{FnOnceReturnsAtMut}
use Rattle.wsn_print.proofs.kept_bytes.KeptBytes.add_with.Goals as goal

-- The front of what a function has filled comes after what was kept.
front_filled : (at n : ℕ) (bytes filled : List ℕ) → at ≤ length bytes → n ≤ length filled
    → take (at + n) (put_mid at (length bytes - at) bytes filled) ≡ take at bytes ++ take n filled
front_filled at n bytes filled within few =
    let size : length (take at bytes) ≡ at = length-take-le at bytes within in
    sym (take-take (at + n) (at + length filled) (put_mid at (length bytes - at) bytes filled) (omega (arith, few)))
    ∙ ap (take (at + n)) (take-put_mid at (length bytes - at) bytes filled (at + length filled) refl within)
    ∙ ap (λ (m : ℕ). take (m + n) (take at bytes ++ filled)) (sym size)
    ∙ take-append-add (take at bytes) filled n

-- What is lent of the array is the room that is left.
room_left : (at max : ℕ) (bytes kept : List ℕ) → length bytes ≡ max → at ≤ max → take at bytes ≡ kept
    → length kept + length (take (length bytes - at) (drop at bytes)) ≡ max
room_left at max bytes kept size within is =
    omega (
      arith,
      size,
      within,
      ap (λ (bs : List ℕ). length bs) (sym is),
      length-take-le at bytes (omega (arith, size, within)),
      length-take-le (length bytes - at) (drop at bytes) (omega (arith, length-drop at bytes)),
    )

pub overflow_add-self : goal.overflow_add-self
overflow_add-self g c =
    let left = room_left c.self.inside.len g.row.MAX c.self.inside.bytes c.args.self.now c.self.told c.self.invariant c.self.view_is in
    let few = c.requires.fits _ _ c.write-number.result left (record { shown = _; shows = refl; left = _; met = c.write-number.ensures; leaves = refl }) in
    omega (arith, few, left, g.MAX.fits)

pub invariant_of-self : goal.invariant_of-self
invariant_of-self g c =
    let left = room_left c.self.inside.len g.row.MAX c.self.inside.bytes c.args.self.now c.self.told c.self.invariant c.self.view_is in
    let few = c.requires.fits _ _ c.write-number.result left (record { shown = _; shows = refl; left = _; met = c.write-number.ensures; leaves = refl }) in
    let same : length c.args.self.now ≡ c.self.inside.len = ap (λ (bs : List ℕ). length bs) (sym c.self.view_is) ∙ length-take-le c.self.inside.len c.self.inside.bytes (omega (arith, c.self.invariant, c.self.told)) in
    omega (arith, few, left, same)

pub returns : goal.returns
returns g c =
    let left = room_left c.self.inside.len g.row.MAX c.self.inside.bytes c.args.self.now c.self.told c.self.invariant c.self.view_is in
    let gave : FnOnceReturnsAtMut g.F.FnOnce c.args.write (take (length c.self.inside.bytes - c.self.inside.len) (drop c.self.inside.len c.self.inside.bytes)) c.write-number.result c.write-number.new.arg2 =
    record { shown = _; shows = refl; left = _; met = c.write-number.ensures; leaves = refl } in
    let few = c.requires.fits _ _ c.write-number.result left gave in (
      _,
      _,
      c.write-number.result,
      left,
      gave,
      front_filled c.self.inside.len c.write-number.result c.self.inside.bytes c.write-number.new.arg2 (omega (arith, c.self.invariant, c.self.told)) (omega (arith, few, c.write-number.auto.arg2))
          ∙ ap (λ (bs : List ℕ). bs ++ take c.write-number.result c.write-number.new.arg2) c.self.view_is,
    )
