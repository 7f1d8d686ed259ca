-- What the lines of a capture show of a stream is what is shown of the stream's bytes, however they are cut into lines.
use Rattle.std.proofs.Common.{◌≡◌, ℕ, List, [], ◌∷◌, ◌++◌, length, map, refl, sym, ap, ◌∙◌, subst, inl, append-nil, append_assoc}
use Rattle.std.specs.List.{flat_map}
use Rattle.std.proofs.lemmas.List.Concat.{flat_map-append}
use Rattle.std.proofs.lemmas.List.{map-append}
use Rattle.wsn_wire.specs.declared.endpoint.Role.{Role}
use Rattle.wsn_wire.specs.declared.endpoint.Role.TheVariants.{Client, Server}
use Rattle.wsn_rules.specs.Limits.{Limits}
use Rattle.wsn_rules.specs.declared.detail.Detail.{Detail}
use Rattle.wsn_rules.specs.declared.detail.Detail.TheVariants.{Events, Frames}
use Rattle.wsn_rules.specs.declared.verdict.Verdict.TheVariants.{Accepted}
use Rattle.wsn_rules.specs.Summary.{counted}
use Rattle.wsn_rules.specs.Entries.{Entry}
use Rattle.wsn_rules.specs.Entries.Entry.{Nothing, Bytes, Mark}
use Rattle.wsn_rules.specs.Sides.{bytes_in, sent}
use Rattle.wsn_rules.specs.ShownStream.{Item, Shown, AreShownFrames, IsShownStream}
use Rattle.wsn_rules.specs.ShownCapture.{ShownLine, beyond, of_stream, item_of, items_with_bytes, AreShownAfter}
use Rattle.wsn_rules.proofs.Prefixes.{push-append}
use Rattle.wsn_rules.proofs.LawfulLists.{no_close_nil, lawful_nil}
use Rattle.wsn_rules.proofs.HeadsGoOn.{no_heads}
use Rattle.wsn_rules.proofs.ShownStreams.{shown_goes_on}

abbrev items_in : List Shown → List Item
items_in shown = map (λ (s : Shown). s.item) shown

-- The items of a stream are of its endpoint.
of_own : (role : Role) (items : List Item) → flat_map (item_of role) (of_stream role items) ≡ items
of_own role [] = refl
of_own Client (item ∷ items) = ap (λ (is : List Item). item ∷ is) (of_own Client items)
of_own Server (item ∷ items) = ap (λ (is : List Item). item ∷ is) (of_own Server items)

none_of_client : (items : List Item) → flat_map (item_of Client) (of_stream Server items) ≡ []
none_of_client [] = refl
none_of_client (item ∷ items) = none_of_client items

none_of_server : (items : List Item) → flat_map (item_of Server) (of_stream Client items) ≡ []
none_of_server [] = refl
none_of_server (item ∷ items) = none_of_server items

sent_push : (role : Role) (given : List Entry) (entry : Entry) → sent role (given ++ entry ∷ []) ≡ sent role given ++ bytes_in role entry
sent_push role given entry =
    flat_map-append (bytes_in role) given (entry ∷ []) ∙ ap (λ (bs : List ℕ). sent role given ++ bs) (append-nil (bytes_in role entry))

-- No frame shows nothing.
no_frames : (detail : Detail) (role : Role) (limits : Limits) → AreShownFrames detail role limits [] [] []
no_frames Events role limits = refl
no_frames Frames role limits = ([], no_heads role limits, refl)

module _ (detail : Detail) (limits : Limits) where
  -- Before any byte nothing is shown.
  pub nothing_shown : (role : Role) → IsShownStream detail role limits [] []
  nothing_shown role = record {
    frames = [];
    verdict = Accepted (counted [] 0 0);
    is_verdict = (record { lawful = lawful_nil role limits; ends = inl (no_close_nil, refl, refl) }, refl);
    of_frames = [];
    are_of_frames = no_frames detail role limits;
    of_verdict = [];
    is_of_verdict = refl;
    all = refl;
  }

  -- What is shown after more lines: of the stream so far, and of these lines.
  record Gathered (role : Role) (given entries : List Entry) (so_far : List Shown) (shown : List ShownLine) : Type 0 where
    all : List Shown
    is_shown : IsShownStream detail role limits (sent role (given ++ entries)) all
    joined : items_in all ≡ items_in so_far ++ items_with_bytes role entries shown

  -- A line of which nothing is counted for the stream.
  passed_over : (role : Role) (given : List Entry) (entry : Entry) (entries : List Entry) (so_far : List Shown) (s : ShownLine) (shown : List ShownLine) → items_with_bytes role (entry ∷ entries) (s ∷ shown) ≡ items_with_bytes role entries shown
      → Gathered role (given ++ entry ∷ []) entries so_far shown → Gathered role given (entry ∷ entries) so_far (s ∷ shown)
  passed_over role given entry entries so_far s shown same g = record {
    all = g.all;
    is_shown = subst (λ (es : List Entry). IsShownStream detail role limits (sent role es) g.all) (push-append given entry entries) g.is_shown;
    joined = g.joined ∙ ap (λ (is : List Item). items_in so_far ++ is) (sym same);
  }

  unchanged : (role : Role) (given : List Entry) (entry : Entry) (so_far : List Shown) → bytes_in role entry ≡ [] → IsShownStream detail role limits (sent role given) so_far → IsShownStream detail role limits (sent role (given ++ entry ∷ [])) so_far
  unchanged role given entry so_far none is =
      subst (λ (bs : List ℕ). IsShownStream detail role limits bs so_far)
      (sym (sent_push role given entry ∙ ap (λ (bs : List ℕ). sent role given ++ bs) none ∙ append-nil (sent role given))) is

  -- A line with bytes of the stream.
  with_bytes : (role : Role) (given : List Entry) (bytes : List ℕ) (entries : List Entry) (so_far longer : List Shown) (s : ShownLine) (shown : List ShownLine) (more : List Item)
      → flat_map (item_of role) s.items ≡ more → items_in longer ≡ items_in so_far ++ more
      → Gathered role (given ++ Bytes role bytes ∷ []) entries longer shown → Gathered role given (Bytes role bytes ∷ entries) so_far (s ∷ shown)
  with_bytes role given bytes entries so_far longer s shown more own grown g = record {
    all = g.all;
    is_shown = subst (λ (es : List Entry). IsShownStream detail role limits (sent role es) g.all) (push-append given (Bytes role bytes) entries) g.is_shown;
    joined =
        g.joined ∙ ap (λ (is : List Item). is ++ items_with_bytes role entries shown) grown ∙ append_assoc (items_in so_far) more (items_with_bytes role entries shown)
        ∙ ap (λ (is : List Item). items_in so_far ++ (is ++ items_with_bytes role entries shown)) (sym own);
  }

  own_bytes : (role : Role) (before : List (List ℕ)) (given : List Entry) (line : List ℕ) (lines : List (List ℕ)) (bytes : List ℕ) (entries : List Entry) (s : ShownLine) (shown : List ShownLine) (so_far : List Shown)
      → IsShownStream detail role limits (sent role given) so_far
      → (now : (longer : List Shown) × IsShownStream detail role limits (sent role given ++ bytes) longer × (s.items ≡ of_stream role (beyond (length (sent role given)) longer)))
      → ((longer : List Shown) → IsShownStream detail role limits (sent role given ++ bytes) longer → Gathered role (given ++ Bytes role bytes ∷ []) entries longer shown)
      → Gathered role given (Bytes role bytes ∷ entries) so_far (s ∷ shown)
  own_bytes role before given line lines bytes entries s shown so_far is now rest =
      let on = shown_goes_on role limits detail (sent role given) bytes so_far now.0 is now.1 in
      with_bytes role given bytes entries so_far now.0 s shown (items_in on.0)
      (ap (flat_map (item_of role)) now.2 ∙ of_own role (beyond (length (sent role given)) now.0) ∙ on.4)
      (ap items_in on.1 ∙ map-append (λ (t : Shown). t.item) so_far on.0)
      (rest now.0 now.1)

  -- The items of the lines after those with the entries `given`.
  gathered : (role : Role) (before : List (List ℕ)) (given : List Entry) (lines : List (List ℕ)) (entries : List Entry) (shown : List ShownLine) (so_far : List Shown)
      → IsShownStream detail role limits (sent role given) so_far → AreShownAfter detail limits before given lines entries shown → Gathered role given entries so_far shown
  gathered role before given [] [] [] so_far is are = record {
    all = so_far;
    is_shown = subst (λ (es : List Entry). IsShownStream detail role limits (sent role es) so_far) (sym (append-nil given)) is;
    joined = sym (append-nil (items_in so_far));
  }
  gathered role before given (line ∷ lines) (Nothing ∷ entries) (s ∷ shown) so_far is are =
      passed_over role given Nothing entries so_far s shown refl
      (gathered role (before ++ line ∷ []) (given ++ Nothing ∷ []) lines entries shown so_far (unchanged role given Nothing so_far (of_nothing role) is) are.3)
    where
      of_nothing : (r : Role) → bytes_in r Nothing ≡ []
      of_nothing Client = refl
      of_nothing Server = refl
  gathered role before given (line ∷ lines) (Mark other ∷ entries) (s ∷ shown) so_far is are =
      passed_over role given (Mark other) entries so_far s shown refl
      (gathered role (before ++ line ∷ []) (given ++ Mark other ∷ []) lines entries shown so_far (unchanged role given (Mark other) so_far (of_mark role) is) are.3)
    where
      of_mark : (r : Role) → bytes_in r (Mark other) ≡ []
      of_mark Client = refl
      of_mark Server = refl
  gathered Client before given (line ∷ lines) (Bytes Client bytes ∷ entries) (s ∷ shown) so_far is are =
      own_bytes Client before given line lines bytes entries s shown so_far is are.2 (λ longer now.
      gathered Client (before ++ line ∷ []) (given ++ Bytes Client bytes ∷ []) lines entries shown longer (subst (λ (bs : List ℕ). IsShownStream detail Client limits bs longer) (sym (sent_push Client given (Bytes Client bytes))) now) are.3)
  gathered Server before given (line ∷ lines) (Bytes Server bytes ∷ entries) (s ∷ shown) so_far is are =
      own_bytes Server before given line lines bytes entries s shown so_far is are.2 (λ longer now.
      gathered Server (before ++ line ∷ []) (given ++ Bytes Server bytes ∷ []) lines entries shown longer (subst (λ (bs : List ℕ). IsShownStream detail Server limits bs longer) (sym (sent_push Server given (Bytes Server bytes))) now) are.3)
  gathered Client before given (line ∷ lines) (Bytes Server bytes ∷ entries) (s ∷ shown) so_far is are =
      passed_over Client given (Bytes Server bytes) entries so_far s shown
      (ap (λ (is : List Item). is ++ items_with_bytes Client entries shown) (ap (flat_map (item_of Client)) are.2.2 ∙ none_of_client (beyond (length (sent Server given)) are.2.0)))
      (gathered Client (before ++ line ∷ []) (given ++ Bytes Server bytes ∷ []) lines entries shown so_far (unchanged Client given (Bytes Server bytes) so_far refl is) are.3)
  gathered Server before given (line ∷ lines) (Bytes Client bytes ∷ entries) (s ∷ shown) so_far is are =
      passed_over Server given (Bytes Client bytes) entries so_far s shown
      (ap (λ (is : List Item). is ++ items_with_bytes Server entries shown) (ap (flat_map (item_of Server)) are.2.2 ∙ none_of_server (beyond (length (sent Client given)) are.2.0)))
      (gathered Server (before ++ line ∷ []) (given ++ Bytes Client bytes ∷ []) lines entries shown so_far (unchanged Server given (Bytes Client bytes) so_far refl is) are.3)
  gathered role before given [] [] (s ∷ shown) so_far is are = absurd are
  gathered role before given [] (_ ∷ entries) shown so_far is are = absurd are
  gathered role before given (line ∷ lines) [] shown so_far is are = absurd are
  gathered role before given (line ∷ lines) (Nothing ∷ entries) [] so_far is are = absurd are
  gathered role before given (line ∷ lines) (Mark other ∷ entries) [] so_far is are = absurd are
  gathered Client before given (line ∷ lines) (Bytes Client bytes ∷ entries) [] so_far is are = absurd are
  gathered Client before given (line ∷ lines) (Bytes Server bytes ∷ entries) [] so_far is are = absurd are
  gathered Server before given (line ∷ lines) (Bytes Client bytes ∷ entries) [] so_far is are = absurd are
  gathered Server before given (line ∷ lines) (Bytes Server bytes ∷ entries) [] so_far is are = absurd are

  pub lines_show_stream : (role : Role) (lines : List (List ℕ)) (entries : List Entry) (shown : List ShownLine) → AreShownAfter detail limits [] [] lines entries shown → (all : List Shown) × IsShownStream detail role limits (sent role entries) all × (items_with_bytes role entries shown ≡ items_in all)
  lines_show_stream role lines entries shown are =
      let g = gathered role [] [] lines entries shown [] (nothing_shown role) are in
      (g.all, g.is_shown, sym g.joined)
