-- Frames whose plan is the uniform plan of their meaning are uniform.
use Rattle.std.proofs.Common.{◌≡◌, ℕ, zero, suc, ◌+◌, ◌-◌, ◌*◌, ◌/◌, ◌≤◌, ◌∷◌, ◌++◌, [], Bool, true, false, not, List, Option, length, replicate, refl, sym, ap, ◌∙◌, subst, inl, inr, arith, append_assoc, append-nil, true≢false}
use Rattle.std.specs.List.{AllByRecursion}
use Rattle.std.proofs.lemmas.Bool.{cases_Bool}
use Rattle.std.proofs.lemmas.List.{map-append, nil_from_length}
use Rattle.std.proofs.Math.Nat.{div-mul-le_self, lt-div-mul-add}
use Rattle.wsn_text.proofs.Numbers.{less_or_not}
use Rattle.wsn_wire.specs.declared.endpoint.Role.{Role}
use Rattle.wsn_wire.specs.declared.length_encoding.Form.{Form}
use Rattle.wsn_wire.specs.declared.length_encoding.Form.TheVariants.{Shortest}
use Rattle.wsn_wire.specs.Frame.{Frame, is_control}
use Rattle.wsn_rules.specs.declared.step.Step.{Step}
use Rattle.wsn_rules.specs.declared.step.Step.TheVariants.{Piece, Last, Control}
use Rattle.wsn_rules.specs.Limits.{Limits}
use Rattle.wsn_rules.specs.Group.{is_data, unfinished, payload_of}
use Rattle.wsn_rules.specs.Lawful.{IsLawful}
use Rattle.wsn_rules.specs.Meaning.{MeantEvent, events_after, meaning}
use Rattle.wsn_rules.specs.Meaning as meant
use Rattle.wsn_rules.specs.Recut.{plan_of}
use Rattle.wsn_rules.specs.UniformPlan.{piece_count, uniform_after, uniform_plan}
use Rattle.wsn_rules.specs.UniformFrames.{HoldsTheRest, IsUniformAt, AreUniform}
use Rattle.wsn_rules.proofs.Prefixes.{push-append, nil-push, head_same, tail_same}
use Rattle.wsn_rules.proofs.LawfulLists.{law_at_split}
use Rattle.wsn_rules.proofs.Groups.{unfinished_control, unfinished_final, unfinished_more}
use Rattle.wsn_rules.proofs.PlanTheory.UniformOfFrames.{text_of_push, full, uniform, pieces_of, IsFull, empty_is_full, full_push, control_after, last_after, piece_after}
use Rattle.wsn_rules.proofs.PlanTheory.PlansOfFrames.{step_of_last, step_of_piece, step_of_control}

-- ---- the length of a rest after the given number of Pieces

rest_of_count : (size n rest : ℕ) → 1 ≤ size → 1 ≤ n * size + rest → piece_count size (n * size + rest) ≡ n → (1 ≤ rest) × (rest ≤ size)
rest_of_count size n rest some bytes is =
    let below = div-mul-le_self (n * size + rest - 1) size in
    let above = lt-div-mul-add {a = n * size + rest - 1} {b = size} some in
    let same : (n * size + rest - 1) / size * size ≡ n * size = ap (λ (k : ℕ). k * size) is in
    (omega arith, omega arith)

-- The step is a Piece.
abbrev is_piece : Step → Bool
is_piece (Piece len key form) = true
is_piece step = false

module _ (size : ℕ) (key : Option (List ℕ)) (some : 1 ≤ size) where
  -- ---- every Piece of a uniform plan is a full one

  abbrev AreFull : List Step → Type 0
  AreFull = AllByRecursion (λ step. is_piece step ≡ true → step ≡ full size key)

  full_join : (plan more : List Step) → AreFull plan → AreFull more → AreFull (plan ++ more)
  full_join [] more all rest = rest
  full_join (step ∷ plan) more all rest = (all.0, full_join plan more all.1 rest)

  full_at : (before : List Step) (step : Step) (after : List Step) → AreFull (before ++ step ∷ after) → is_piece step ≡ true → step ≡ full size key
  full_at [] step after all is = all.0 is
  full_at (b ∷ before) step after all is = full_at before step after all.1 is

  all_full : (n : ℕ) → AreFull (replicate n (full size key))
  all_full zero = tt
  all_full (suc n) = (λ _. refl, all_full n)

  uniform_is_full : (run : List Step) (events : List MeantEvent) → AreFull run → AreFull (uniform_after size false key run events)
  uniform_is_full run [] all = all
  uniform_is_full run (meant.Control op body ∷ events) all =
      uniform_is_full (run ++ Control key ∷ []) events (full_join run (Control key ∷ []) all (λ is. absurd (true≢false (sym is)), tt))
  uniform_is_full run (meant.Message kind text ∷ events) all =
      let n = piece_count size (length text) in
      let later = uniform_is_full [] events tt in
      full_join run (replicate n (full size key) ++ (Last key Shortest ∷ uniform size key events)) all
      (full_join (replicate n (full size key)) (Last key Shortest ∷ uniform size key events) (all_full n) (λ is. absurd (true≢false (sym is)), later))

  -- ---- the parts of a plan that is written in two ways

  control_here : (group : List Frame) (own : Option (List ℕ)) (plan other : List Step) → pieces_of size key group ++ Control own ∷ plan ≡ Control key ∷ other → (group ≡ []) × (own ≡ key) × (plan ≡ other)
  control_here [] own plan other is =
      let same = head_same (Control own) (Control key) plan other is in
      let keys : own ≡ key = cc in
      (refl, keys, tail_same (Control own) (Control key) plan other is)
  control_here (f ∷ group) own plan other is =
      let same : full size key ≡ Control key = head_same (full size key) (Control key) (pieces_of size key group ++ Control own ∷ plan) other is in cc

  pub record SameLast (n : ℕ) (group : List Frame) (own : Option (List ℕ)) (form : Form) (plan other : List Step) : Type 0 where
    pub count : n ≡ length group
    pub keys : own ≡ key
    pub shortest : form ≡ Shortest
    pub later : plan ≡ other

  last_here : (n : ℕ) (group : List Frame) (own : Option (List ℕ)) (form : Form) (plan other : List Step)
      → pieces_of size key group ++ Last own form ∷ plan ≡ replicate n (full size key) ++ Last key Shortest ∷ other → SameLast n group own form plan other
  last_here zero [] own form plan other is =
      let same = head_same (Last own form) (Last key Shortest) plan other is in
      let keys : own ≡ key = cc in
      let shortest : form ≡ Shortest = cc in
      record { count = refl; keys = keys; shortest = shortest; later = tail_same (Last own form) (Last key Shortest) plan other is }
  last_here zero (f ∷ group) own form plan other is =
      let same : full size key ≡ Last key Shortest = head_same (full size key) (Last key Shortest) (pieces_of size key group ++ Last own form ∷ plan) other is in cc
  last_here (suc n) [] own form plan other is =
      let same : Last own form ≡ full size key = head_same (Last own form) (full size key) plan (replicate n (full size key) ++ Last key Shortest ∷ other) is in cc
  last_here (suc n) (f ∷ group) own form plan other is =
      let rest = last_here n group own form plan other (tail_same (full size key) (full size key) (pieces_of size key group ++ Last own form ∷ plan) (replicate n (full size key) ++ Last key Shortest ∷ other) is) in
      record { count = ap suc rest.count; keys = rest.keys; shortest = rest.shortest; later = rest.later }

  -- ---- the rest

  rest_here : (earlier : List Frame) (f : Frame) → IsFull size key earlier → piece_count size (length (payload_of (earlier ++ f ∷ []))) ≡ length earlier → HoldsTheRest size earlier f
  unfolding IsFull
  rest_here earlier f filled is =
      let bytes = text_of_push earlier f in
      let sum_is : length (payload_of (earlier ++ f ∷ [])) ≡ length earlier * size + length f.payload = omega arith in
      elim (less_or_not 0 (length (payload_of (earlier ++ f ∷ [])))) [
        | inl held ↦ inl (rest_of_count size (length earlier) (length f.payload) some (omega arith) (ap (piece_count size) (sym sum_is) ∙ is))
        | inr none ↦ inr (nil_from_length (payload_of (earlier ++ f ∷ [])) (omega arith))
      ]

  -- ---- frame by frame

  abbrev AreUniformBehind : List Frame → List Frame → Type 0
  AreUniformBehind before [] = Unit {0}
  AreUniformBehind before (f ∷ fs) = IsUniformAt size key before f × AreUniformBehind (before ++ f ∷ []) fs

  uniform_at : (before fs front after : List Frame) (f : Frame) → AreUniformBehind before fs → fs ≡ front ++ f ∷ after → IsUniformAt size key (before ++ front) f
  uniform_at before [] front after f all is = absurd (nil-push front f after is)
  uniform_at before (g ∷ fs) [] after f all is =
      subst (λ (front : List Frame). IsUniformAt size key front f) (sym (append-nil before)) (subst (IsUniformAt size key before) (head_same g f fs after is) all.0)
  uniform_at before (g ∷ fs) (h ∷ front) after f all is =
      let same = head_same g h fs (front ++ f ∷ after) is in
      let later = uniform_at (before ++ g ∷ []) fs front after f all.1 (tail_same g h fs (front ++ f ∷ after) is) in
      subst (λ (front_all : List Frame). IsUniformAt size key front_all f) (push-append before g front ∙ ap (λ (first : Frame). before ++ first ∷ front) same) later

  not_data : (f : Frame) → is_control f.op ≡ true → is_data f ≡ true → ⊥
  not_data f control data_is = true≢false (sym data_is ∙ ap not control)

  -- The steps of these frames, and those after them, are the rest of the uniform plan.
  GoOn : List Frame → List Frame → Type 0
  GoOn before fs = pieces_of size key (unfinished before) ++ plan_of fs ≡ uniform size key (events_after before fs)

  -- The frame is uniform, and the rest continues after it.
  record GoesOn (before : List Frame) (f : Frame) (fs : List Frame) : Type 0 where
    here : IsUniformAt size key before f
    filled : IsFull size key (unfinished (before ++ f ∷ []))
    later : GoOn (before ++ f ∷ []) fs

  on_without_group : (before fs : List Frame) (group : List Frame) → unfinished before ≡ group → group ≡ [] → plan_of fs ≡ uniform size key (events_after before fs) → GoOn before fs
  unfolding GoOn
  on_without_group before fs group is none rest = ap (λ (earlier : List Frame). pieces_of size key earlier ++ plan_of fs) (is ∙ none) ∙ rest

  on_control : (before : List Frame) (f : Frame) (fs : List Frame) → is_control f.op ≡ true → f.fin ≡ true → f.form ≡ Shortest → GoOn before (f ∷ fs) → GoesOn before f fs
  unfolding GoOn
  on_control before f fs control final shortest goes =
      let group = unfinished before in
      let same = control_here group f.key (plan_of fs) (uniform size key (events_after (before ++ f ∷ []) fs))
      (ap (λ (step : Step). pieces_of size key group ++ step ∷ plan_of fs) (sym (step_of_control f control)) ∙ goes ∙ control_after size key before f fs control final) in
      let still = unfinished_control before f (ap not control) in
      record {
        here = record {
          same_key = same.1;
          shortest = shortest;
          full = λ is. absurd (not_data f control is);
          rest = λ is. absurd (not_data f control is);
          between = λ _. same.0;
        };
        filled = empty_is_full size key (unfinished (before ++ f ∷ [])) (still ∙ same.0);
        later = on_without_group (before ++ f ∷ []) fs group still same.0 same.2;
      }

  on_last : (before : List Frame) (f : Frame) (fs : List Frame) → is_control f.op ≡ false → f.fin ≡ true → IsFull size key (unfinished before) → GoOn before (f ∷ fs) → GoesOn before f fs
  unfolding GoOn
  on_last before f fs other final filled goes =
      let group = unfinished before in
      let n = piece_count size (length (payload_of (group ++ f ∷ []))) in
      let same = last_here n group f.key f.form (plan_of fs) (uniform size key (events_after (before ++ f ∷ []) fs))
      (ap (λ (step : Step). pieces_of size key group ++ step ∷ plan_of fs) (sym (step_of_last f other final)) ∙ goes ∙ last_after size key before f fs other final) in
      let ended = unfinished_final before f (ap not other) final in
      record {
        here = record {
          same_key = same.keys;
          shortest = same.shortest;
          full = λ _ more. absurd (true≢false (sym final ∙ more));
          rest = λ _ _. rest_here group f filled same.count;
          between = λ is. absurd (true≢false (sym (ap not other) ∙ is));
        };
        filled = empty_is_full size key (unfinished (before ++ f ∷ [])) ended;
        later = on_without_group (before ++ f ∷ []) fs [] ended refl same.later;
      }

  on_piece : (before : List Frame) (f : Frame) (fs : List Frame) → is_control f.op ≡ false → f.fin ≡ false → IsFull size key (unfinished before) → GoOn before (f ∷ fs) → GoesOn before f fs
  unfolding GoOn
  on_piece before f fs other more filled goes =
      let group = unfinished before in
      let later = events_after (before ++ f ∷ []) fs in
      let own = Piece (length f.payload) f.key f.form in
      let whole = goes ∙ piece_after size key before f fs more in
      let has_scanned : pieces_of size key group ++ own ∷ plan_of fs ≡ uniform size key later = ap (λ (step : Step). pieces_of size key group ++ step ∷ plan_of fs) (sym (step_of_piece f other more)) ∙ whole in
      let same : own ≡ full size key = full_at (pieces_of size key group) own (plan_of fs) (subst AreFull (sym has_scanned) (uniform_is_full [] later tt)) refl in
      let size_is : length f.payload ≡ size = cc in
      let key_is : f.key ≡ key = cc in
      let form_is : f.form ≡ Shortest = cc in
      let grown = unfinished_more before f (ap not other) more in
      record {
        here = record {
          same_key = key_is;
          shortest = form_is;
          full = λ _ _. size_is;
          rest = λ _ final. absurd (true≢false (sym final ∙ more));
          between = λ is. absurd (true≢false (sym (ap not other) ∙ is));
        };
        filled = subst (IsFull size key) (sym grown) (full_push size key group f filled size_is);
        later =
            ap (λ (earlier : List Frame). pieces_of size key earlier ++ plan_of fs) grown
            ∙ ap (λ (steps : List Step). steps ++ plan_of fs) (map-append (λ (g : Frame). full size key) group (f ∷ []))
            ∙ append_assoc (pieces_of size key group) (full size key ∷ []) (plan_of fs)
            ∙ ap (λ (step : Step). pieces_of size key group ++ step ∷ plan_of fs) (sym same)
            ∙ has_scanned;
      }

  module _ (role : Role) (limits : Limits) where
    one_more : (before : List Frame) (f : Frame) (fs : List Frame) → IsLawful role limits (before ++ f ∷ fs) → IsFull size key (unfinished before) → GoOn before (f ∷ fs) → GoesOn before f fs
    one_more before f fs lawful filled goes =
        let law = law_at_split role limits before f fs lawful in
        elim (cases_Bool (is_control f.op)) [
          | inl control ↦ on_control before f fs control (law.frame.encoded.control control).final (law.frame.encoded.control control).shortest goes
          | inr other ↦ elim (cases_Bool f.fin) [
            | inl final ↦ on_last before f fs other final filled goes
            | inr more ↦ on_piece before f fs other more filled goes
          ]
        ]

    following : (before fs : List Frame) → IsLawful role limits (before ++ fs) → IsFull size key (unfinished before) → GoOn before fs → AreUniformBehind before fs
    following before [] lawful filled goes = tt
    following before (f ∷ fs) lawful filled goes =
        let on = one_more before f fs lawful filled goes in
        (on.here, following (before ++ f ∷ []) fs (subst (IsLawful role limits) (sym (push-append before f fs)) lawful) on.filled on.later)

    pub uniform_by_plan : (fs : List Frame) → IsLawful role limits fs → uniform_plan size false key (meaning fs) ≡ plan_of fs → AreUniform size key fs
    unfolding GoOn
    uniform_by_plan fs lawful is before after f split = uniform_at [] fs before after f (following [] fs lawful (empty_is_full size key [] refl) (sym is)) split
