-- The accident: a runner that takes a clause by its place and never reads its symbol. In an accepted image the clause at place i of every `new` and `switch` has symbol i, and an image with another symbol there is refused with 9, at that byte. Assumes nothing.
-- The idea: every clause that is listed is found again where its statement is read, so one recursion over the typing, `statement-tested`, serves all of it.
use Prim.Native.Nat.{ℕ, zero, suc, ◌+◌, ◌/◌, ◌%◌, ◌≤◌}
use mathlib.Core.Path.{◌≡◌, refl, ap}
use mathlib.Core.Logic.{◌≢◌}
use mathlib.Core.List.{List, [], ◌∷◌, ◌++◌, append-nil, append_assoc, Forall₂}
use mathlib.Core.Bool.{true}
use native.Mathlib.Nat.{not-suc-le-zero}
use native.Mathlib.Omega.{arith}
use lib.ListN.{length, take, drop, length-append}
use lib.Seq.{take-append_seam, take-append-add, length-take-le}
use lib.Dec.{leb, ltb, eqb}
use borrow.Author.Tests.{le-leb, lt-ltb, eq-eqb, ne_eqb}
use Rattle.definitions.specs.Limits.{version, largest_image, widest, deepest}
use Rattle.definitions.specs.Terms.{prd, cns, Environment, Signature, Statement, Clauses, Program}
use Rattle.definitions.specs.Typing.{At, All, Typed, TypedClauses, TypedProgram, JUMP, SUBSTITUTE, EXTERN, LET, NEW, SWITCH, INVOKE, NONE, CLAUSE}
use Rattle.definitions.specs.Layout.{region, literal_bytes, operation_byte, Head, named, bare, head_bytes, clause_count, statement_bytes, clauses_bytes, bodies_bytes, content, layout, Accepted}
use Rattle.definitions.specs.ClausePlaces.{ClausePlace, of_head, in_statement, in_clauses, in_bodies, clause_places}
use Rattle.definitions.specs.Reader.{Fault, fault, refused, Reader, after, need, the, byte, in_region}
use Rattle.definitions.specs.FirstFault.{clauses, a_statement, statement, bodies, program, envelope, first_fault}
use Rattle.exactness.proofs.Entries.{all-at}
use Rattle.exactness.proofs.Readers.{upto-complete}
use Rattle.exactness.proofs.Numbers.{item-complete}
use Rattle.exactness.proofs.Header.{same_types-refl, signatures_bytes, labels_bytes, signatures-complete, labels-complete}
use Rattle.exactness.proofs.Complete.{front-append, back-append, positions-complete, paired-types, arguments-complete, arguments-ext, operation-complete, region-complete, head-complete, clause_count-typed, statement-complete, clauses-complete}
use Rattle.exactness.proofs.ClausesLaid.{Each, none, both, mapped, Laid, laid-longer, laid-past, symbol-laid}

-- ---- a clause's symbol byte, tested

-- a list is what stands before an entry, that entry, and what stands behind it
parted : {A : Type 0} (l : List A) (n : ℕ) (b : A) → At l n b → l ≡ take n l ++ (b ∷ drop (suc n) l)
parted [] n b h = let z : ◌≡◌ {A = ℕ} 0 1 = cc in absurd (omega arith)
parted (a ∷ l) zero b h = cc
parted (a ∷ l) (suc n) b h = ap (λ r. a ∷ r) (parted l n b h)

-- A clause's symbol is its place, and its symbol byte is one of the bytes xs, which stand at an offset; a reader refuses whatever has another byte there, with 9 at that byte, if the bytes before it are the same and those behind it are not fewer.
record Tested {A : Type 0} (m : Reader A) (at : ℕ) (xs : List ℕ) (c : ClausePlace) : Type 0 where
  pub ordered : c.symbol ≡ c.place
  pub laid : Laid at xs c
  pub refuses : (b : ℕ) (ys : List ℕ) → b ≢ c.place → length laid.behind ≤ length ys → m at (laid.before ++ (b ∷ ys)) ≡ refused (fault 9 c.offset)

-- with more bytes behind xs
longer : {A : Type 0} {m : Reader A} {at : ℕ} {xs : List ℕ} {l : List ClausePlace} (zs : List ℕ) → Each (Tested m at xs) l → Each (Tested m at (xs ++ zs)) l
longer zs = mapped λ c t. record {
  ordered = t.ordered;
  laid = laid-longer zs t.laid;
  refuses = λ b ys no' h. t.refuses b ys no' (omega (arith, length-append t.laid.behind zs));
}

-- with bytes p before xs, after which another reader goes on with m: it refuses what m refuses of the rest, at the offset behind p however that is written
past : {A B : Type 0} {m : Reader A} {m' : Reader B} {at o : ℕ} {xs : List ℕ} {l : List ClausePlace} (p : List ℕ) → Each (Tested m at xs) l → at ≡ o + length p
    → ((rest : List ℕ) (x : Fault) → ((e : ℕ) → e ≡ at → m e rest ≡ refused x) → m' o (p ++ rest) ≡ refused x) → Each (Tested m' o (p ++ xs)) l
past p h e f = mapped (λ c t. record {
  ordered = t.ordered;
  laid = laid-past p e t.laid;
  refuses = λ b ys no' h. rw (append_assoc p t.laid.before (b ∷ ys)) (f (t.laid.before ++ (b ∷ ys)) (fault 9 c.offset) (λ e i. rw i (t.refuses b ys no' h)));
}) h

-- with xs in a region: its reader sees as many bytes as xs are
inside : {A : Type 0} {m : Reader A} {at : ℕ} {xs : List ℕ} {l : List ClausePlace} → Each (Tested m (at + 2) xs) l → Each (Tested (in_region m) at (region xs)) l
unfolding region after need
inside {at = at} {xs = xs} = mapped λ c t.
    let before : List ℕ = t.laid.before in
    let k : ℕ = length t.laid.behind in
    let n : length xs ≡ length before + suc k = rw (t.laid.bytes, length-append before (c.symbol ∷ t.laid.behind)) in
    record {
      ordered = t.ordered;
      laid = laid-past (length xs / 256 ∷ length xs % 256 ∷ []) refl t.laid;
      refuses = λ b ys no' h. rw (
        item-complete 1 (length xs) at (before ++ (b ∷ ys)),
        le-leb (length xs) (length (before ++ (b ∷ ys))) (rw (n, length-append) (omega arith)),
        n,
        take-append-add before (b ∷ ys) (suc k),
        t.refuses b (take k ys) no' (rw (length-take-le k ys h) (omega arith)),
      );
    }

-- ---- statements and clauses

module _ (Σ : List Signature) (Θ : List Environment) where
  -- whatever reads statements and whatever stands behind it, another symbol than the next one's is refused with 9, at that byte
  pub clause-symbol : (statement : ℕ → Environment → Reader Statement) (d : ℕ) (before behind : Environment) (i : ℕ) (ps : Environment) (S : Signature) (at b : ℕ) (xs : List ℕ) → b ≢ i → clauses Σ Θ statement named d before behind i (ps ∷ S) at (b ∷ xs) ≡ refused (fault 9 at)
  unfolding after need byte
  clause-symbol statement d before behind i ps S at b xs no' = rw (ne_eqb b i no')

  -- with bytes to read, one is the code's
  coded : (d : ℕ) (Δ : Environment) {at : ℕ} {xs : List ℕ} {l : List ClausePlace} {n : ℕ} (k : ℕ) → suc n ≤ k → ((j : ℕ) → n ≤ j → Each (Tested (a_statement Σ Θ (statement Σ Θ j) d Δ) at xs) l) → Each (Tested (statement Σ Θ k d Δ) at xs) l
  coded d Δ zero h f = absurd (not-suc-le-zero h)
  coded d Δ (suc k) h f = f k (omega arith)

  -- every clause in a typed statement is tested where the statement is read; and in clauses likewise
  mutual
    unfolding region statement_bytes after need the byte

    statement-tested : {d : ℕ} {Δ : Environment} {s : Statement} → Typed Σ Θ d Δ s → (k at : ℕ) → length (statement_bytes s) ≤ k → Each (Tested (statement Σ Θ k d Δ) at (statement_bytes s)) (in_statement at s)
    statement-tested (JUMP e) k at h = none
    statement-tested (SUBSTITUTE {Δ = Δ} {ps = ps} {s = s} f n t) k at h = coded _ _ k h (λ k h.
        past (1 ∷ length ps ∷ ps) (statement-tested t k (at + 2 + length ps) (omega (arith, length-append ps (statement_bytes s)))) (omega arith) λ rest x q.
        rw (upto-complete widest (length ps) f (suc at) (ps ++ rest), positions-complete Δ n (suc at + 1) rest, paired-types Δ n, q (suc at + 1 + length ps) (omega arith)))
    statement-tested (EXTERN {Δ = Δ} {op = op} {ps = ps} {cs = cs} f n ts) k at h =
        let l : length (literal_bytes op ++ (ps ++ clauses_bytes bare cs)) ≡ length (literal_bytes op) + (length ps + length (clauses_bytes bare cs)) = rw (length-append, length-append ps (clauses_bytes bare cs)) in
        rw (← (append_assoc (literal_bytes op) ps (clauses_bytes bare cs))) (coded _ _ k h (λ k h.
        past (2 ∷ operation_byte op ∷ (literal_bytes op ++ ps)) (clauses-tested ts bare k (at + 2 + length (literal_bytes op) + length ps) (omega arith)) (rw length-append (omega arith)) λ rest x q.
        rw (
          append_assoc (literal_bytes op) ps rest,
          operation-complete op (suc at) (ps ++ rest),
          arguments-complete Δ n (arguments-ext op) (suc (suc at) + length (literal_bytes op)) rest,
          q (suc (suc at) + length (literal_bytes op) + length ps) (omega arith),
        )))
    statement-tested (LET {t = t} {m = m} Γ Γ₀ S e eT em f u) k at h = coded _ _ k h (λ k h.
        past (3 ∷ t ∷ m ∷ []) (statement-tested u k (at + 3) (omega arith)) (omega arith) λ rest x q.
        rw (e, eT, em, back-append Γ Γ₀, front-append Γ Γ₀, same_types-refl Γ₀, le-leb (length (Γ ++ _)) widest f, q (suc (suc (suc at))) (omega arith)))
    statement-tested (NEW {t = t} {c = c} {cs = cs} {s = s} Γ Γ₀ S e ec eT ts f u) k at h = coded _ _ k h (λ k h.
        let l : length (clauses_bytes named cs ++ statement_bytes s) ≡ length (clauses_bytes named cs) + length (statement_bytes s) = length-append (clauses_bytes named cs) (statement_bytes s) in
        let i : leb (length Γ₀) (length (Γ ++ Γ₀)) ≡ true = le-leb (length Γ₀) (length (Γ ++ Γ₀)) (rw length-append (omega arith)) in
        let n : eqb (clause_count cs) (length S) ≡ true = eq-eqb (clause_count cs) (length S) (clause_count-typed Σ Θ ts) in
        both
        (past (4 ∷ t ∷ c ∷ clause_count cs ∷ []) (longer (statement_bytes s) (clauses-tested ts named k (at + 4) (omega arith))) (omega arith) λ rest x q.
        rw (e, eT, ec, back-append Γ Γ₀, front-append Γ Γ₀, i, n, q (suc (suc (suc (suc at)))) (omega arith)))
        (past (4 ∷ t ∷ c ∷ clause_count cs ∷ clauses_bytes named cs) (statement-tested u k (at + 4 + length (clauses_bytes named cs)) (omega arith)) (omega arith) λ rest x q.
        rw (
          e,
          eT,
          ec,
          back-append Γ Γ₀,
          front-append Γ Γ₀,
          i,
          n,
          clauses-complete Σ Θ ts named k (suc (suc (suc (suc at)))) rest (omega arith),
          le-leb (length (Γ ++ (cns t ∷ []))) widest f,
          q (suc (suc (suc (suc at))) + length (clauses_bytes named cs)) (omega arith),
        )))
    statement-tested (SWITCH {t = t} {cs = cs} Γ S e eT ts) k at h = coded _ _ k h (λ k h.
        past (5 ∷ t ∷ clause_count cs ∷ []) (clauses-tested ts named k (at + 3) (omega arith)) (omega arith) λ rest x q.
        rw (e, eT, back-append Γ (prd t ∷ []), front-append Γ (prd t ∷ []), eq-eqb t t refl, eq-eqb (clause_count cs) (length S) (clause_count-typed Σ Θ ts), q (suc (suc (suc at))) (omega arith)))
    statement-tested (INVOKE t Γ S e eT em) k at h = none

    clauses-tested : {d i : ℕ} {before behind : Environment} {S : Signature} {cs : Clauses} → TypedClauses Σ Θ d before behind i S cs → (h : Head) (k at : ℕ) → length (clauses_bytes h cs) ≤ k → Each (Tested (clauses Σ Θ (statement Σ Θ k) h d before behind i S) at (clauses_bytes h cs)) (in_clauses h at i cs)
    clauses-tested NONE h k at l = none
    clauses-tested (CLAUSE {d = d} {i = i} {before = before} {behind = behind} {ps = ps} {S = S} {s = s} {cs = cs} f g t ts) h k at l =
        let xs : List ℕ = region (statement_bytes s) in
        let n : length (head_bytes h i ++ (xs ++ clauses_bytes h cs)) ≡ length (head_bytes h i) + (length xs + length (clauses_bytes h cs)) = rw (length-append (head_bytes h i) (xs ++ clauses_bytes h cs), length-append xs (clauses_bytes h cs)) in
        let w : leb (length (before ++ ps ++ behind)) widest ≡ true = le-leb (length (before ++ ps ++ behind)) widest f in
        let v : ltb d deepest ≡ true = lt-ltb d deepest g in
        both (symbol-tested h k) (both
        (past (head_bytes h i) (longer (clauses_bytes h cs) (inside (statement-tested t k (at + length (head_bytes h i) + 2) (omega arith)))) refl λ rest x q.
        rw (head-complete h i at rest, w, v, q (at + length (head_bytes h i)) refl))
        (rw (← (append_assoc (head_bytes h i) xs (clauses_bytes h cs))) (past (head_bytes h i ++ xs) (clauses-tested ts h k (at + length (head_bytes h i) + length xs) (omega arith)) (rw (length-append (head_bytes h i) xs) (omega arith)) λ rest x q.
        rw (
          append_assoc (head_bytes h i) xs rest,
          head-complete h i at (xs ++ rest),
          w,
          v,
          region-complete (statement Σ Θ k (suc d) (before ++ ps ++ behind)) s (statement_bytes s) (λ at. rw append-nil at (statement-complete Σ Θ t k at [] (omega arith))) (at + length (head_bytes h i)) rest,
          q (at + length (head_bytes h i) + length xs) refl,
        ))))
      where
        -- a symbol byte is the clause's first
        symbol-tested : (h : Head) (k : ℕ) → Each (Tested (clauses Σ Θ (statement Σ Θ k) h d before behind i (ps ∷ S)) at (head_bytes h i ++ (region (statement_bytes s) ++ clauses_bytes h cs))) (of_head h at i i)
        symbol-tested named k = record {
          each = (
            record {
              ordered = refl;
              laid = record { before = []; behind = region (statement_bytes s) ++ clauses_bytes named cs; bytes = refl; stands = omega arith };
              refuses = λ b ys no' _. clause-symbol (statement Σ Θ k) d before behind i ps S at b ys no';
            },
            tt,
          );
        }
        symbol-tested bare k = none

  -- the bodies of labels
  bodies-tested : {Δs : List Environment} {ss : List Statement} → Forall₂ (Typed Σ Θ 0) Δs ss → (k at : ℕ) → length (bodies_bytes ss) ≤ k → Each (Tested (bodies Σ Θ k Δs) at (bodies_bytes ss)) (in_bodies at ss)
  unfolding after bodies_bytes
  bodies-tested Forall₂.nil k at h = none
  bodies-tested (Forall₂.cons {a = Δ} {b = s} {l₂ = ss} t ts) k at h =
      let l : length (region (statement_bytes s) ++ bodies_bytes ss) ≡ length (region (statement_bytes s)) + length (bodies_bytes ss) = length-append (region (statement_bytes s)) (bodies_bytes ss) in
      both
      (past [] (longer (bodies_bytes ss) (inside (statement-tested t k (at + 2) (omega arith)))) (omega arith) λ rest x q. rw (q at refl))
      (past (region (statement_bytes s)) (bodies-tested ts k (at + length (region (statement_bytes s))) (omega arith)) refl λ rest x q.
      rw (
        region-complete (statement Σ Θ k 0 Δ) s (statement_bytes s) (λ at. rw append-nil at (statement-complete Σ Θ t k at [] (omega arith))) at rest,
        q (at + length (region (statement_bytes s))) refl,
      ))

-- ---- images

-- what follows the length field stands at 3; the whole image at 0
program-tested : (p : Program) → TypedProgram p → (k : ℕ) → length (content p) ≤ k → Each (Tested (program k) 3 (content p)) (clause_places p)
unfolding content after
program-tested p t k h =
    let xs : List ℕ = signatures_bytes p.signatures in
    let ys : List ℕ = labels_bytes p.labels in
    let zs : List ℕ = bodies_bytes p.bodies in
    let l : length (xs ++ (ys ++ zs)) ≡ length xs + (length ys + length zs) = rw (length-append xs (ys ++ zs), length-append ys zs) in
    rw (← (append_assoc xs ys zs)) (past (xs ++ ys) (bodies-tested p.signatures p.labels t.bodies_typed k (3 + length xs + length ys) (omega arith)) (rw (length-append xs ys) (omega arith)) λ rest x q.
    rw (
      append_assoc xs ys rest,
      signatures-complete p.signatures (t.signatures_few, t.signatures_known) 3 (ys ++ rest),
      labels-complete (length p.signatures) p.labels (t.labels_few, t.labels_known, t.entry) (3 + length xs) rest,
      q (3 + length xs + length ys) refl,
    ))

layout-tested : (p : Program) → TypedProgram p → length (layout p) ≤ largest_image → Each (Tested (envelope version (length (layout p)) (program (length (layout p)))) 0 (layout p)) (clause_places p)
unfolding layout region after need byte
layout-tested p t h =
    let n : ℕ = length (content p) in
    past (version ∷ n / 256 ∷ n % 256 ∷ []) (program-tested p t (length (layout p)) (omega arith)) refl λ rest x q.
    rw (
      le-leb 3 (length (layout p)) (omega arith),
      le-leb (length (layout p)) largest_image h,
      item-complete 1 n 1 rest,
      eq-eqb (n + 3) (suc (suc (suc n))) (omega arith),
      q 3 refl,
    )

-- every clause of an accepted image's program is tested
tested : {image : List ℕ} (a : Accepted image) (n : ℕ) (c : ClausePlace) → At (clause_places a.program) n c → Tested (envelope version (length image) (program (length image))) 0 image c
tested {image} a n c h = all-at (Tested (envelope version (length image) (program (length image))) 0 image) (clause_places a.program) n (all a) h
  where
    all : (a : Accepted image) → All (Tested (envelope version (length image) (program (length image))) 0 image) (clause_places a.program)
    all a = rw a.encoded at (layout-tested a.program a.typed (rw a.encoded a.small)).each

-- where xs are all bytes, others are refused that are as many, are the same before a symbol byte, and have another there
tested-refused : {A : Type 0} (m : Reader A) (xs : List ℕ) (c : ClausePlace) → Tested m 0 xs c → (ys : List ℕ) → length ys ≡ length xs → take c.offset ys ≡ take c.offset xs → (b : ℕ) → At ys c.offset b → b ≢ c.place → m 0 ys ≡ refused (fault 9 c.offset)
tested-refused m xs c t ys l e b h no' =
    let before : List ℕ = t.laid.before in
    let zs : List ℕ = drop (suc c.offset) ys in
    let o : c.offset ≡ length before = omega (arith, t.laid.stands) in
    let f : take c.offset xs ≡ before = rw (o, t.laid.bytes, take-append_seam before (c.symbol ∷ t.laid.behind)) in
    let q : ys ≡ before ++ (b ∷ zs) = rw (← f, ← e) (parted ys c.offset b h) in
    rw q (t.refuses b zs no' (omega (arith, ap length q, ap length t.laid.bytes, length-append before (b ∷ zs), length-append before (c.symbol ∷ t.laid.behind))))

module _ {image : List ℕ} (a : Accepted image) (n : ℕ) (c : ClausePlace) (h : At (clause_places a.program) n c) where
  -- in an accepted image the clause at place i of every `new` and every `switch` has symbol i,
  pub in_order : c.symbol ≡ c.place
  in_order = (tested a n c h).ordered

  -- and that symbol is the byte at the listed offset;
  pub symbol-byte : At image c.offset c.symbol
  symbol-byte = rw a.encoded at (symbol-laid a.program n c h)

  -- an image of that length with another byte there is refused with 9 at that byte, where all bytes before it are the same, whatever stands behind it.
  pub another-symbol : (other : List ℕ) → length other ≡ length image → take c.offset other ≡ take c.offset image → (b : ℕ) → At other c.offset b → b ≢ c.place → first_fault other ≡ fault 9 c.offset
  unfolding first_fault
  another-symbol other l e b g no' = rw (l, tested-refused _ image c (tested a n c h) other l e b g no')
