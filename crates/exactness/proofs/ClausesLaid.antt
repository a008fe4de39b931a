-- A program's layout has, at the offset of every clause that is listed, that clause's symbol: of every program, typed or not. Assumes nothing.
use Prim.Native.Nat.{ℕ, suc, ◌+◌, ◌/◌, ◌%◌}
use mathlib.Core.Path.{◌≡◌, refl}
use mathlib.Core.List.{List, [], ◌∷◌, ◌++◌, append_assoc}
use native.Mathlib.Nat.{zero-add}
use native.Mathlib.Omega.{arith}
use lib.ListN.{length, length-append}
use Rattle.definitions.specs.Limits.{version}
use Rattle.definitions.specs.Terms.{Statement, jump, substitute, extern, let', new, switch, invoke, Clauses, none as no_clauses, clause, Program}
use Rattle.definitions.specs.Typing.{At, All}
use Rattle.definitions.specs.Layout.{region, operation_byte, literal_bytes, Head, named, bare, head_bytes, clause_count, statement_bytes, clauses_bytes, bodies_bytes, content, layout}
use Rattle.definitions.specs.ClausePlaces.{ClausePlace, of_head, in_statement, in_clauses, in_bodies, clause_places}
use Rattle.exactness.proofs.Entries.{all-at}
use Rattle.exactness.proofs.Header.{signatures_bytes, labels_bytes}
use Rattle.exactness.proofs.Complete.{at-seam}

-- ---- clauses that are listed

-- Every clause of a list is so.
pub record Each (P : ClausePlace → Type 0) (l : List ClausePlace) : Type 0 where
  pub each : All P l

-- no clauses; those of two lists; and what follows of each clause
pub none : {P : ClausePlace → Type 0} → Each P []
none = record { each = tt }

pub both : {P : ClausePlace → Type 0} {l l' : List ClausePlace} → Each P l → Each P l' → Each P (l ++ l')
both {P} {l} {l'} h h' = record { each = go l h.each }
  where
    go : (l : List ClausePlace) → All P l → All P (l ++ l')
    go [] a = h'.each
    go (c ∷ l) a = (a.0, go l a.1)

pub mapped : {P Q : ClausePlace → Type 0} {l : List ClausePlace} → ((c : ClausePlace) → P c → Q c) → Each P l → Each Q l
mapped {P} {Q} {l} f h = record { each = go l h.each }
  where
    go : (l : List ClausePlace) → All P l → All Q l
    go [] a = tt
    go (c ∷ l) a = (f c a.0, go l a.1)

-- A clause's symbol byte is one of the bytes xs, which stand at an offset.
pub record Laid (at : ℕ) (xs : List ℕ) (c : ClausePlace) : Type 0 where
  pub before : List ℕ
  pub behind : List ℕ
  pub bytes : xs ≡ before ++ (c.symbol ∷ behind)
  pub stands : c.offset ≡ at + length before

-- with more bytes behind xs, or before them
abbrev pub laid-longer : {at : ℕ} {xs : List ℕ} {c : ClausePlace} (zs : List ℕ) → Laid at xs c → Laid at (xs ++ zs) c
laid-longer {c = c} zs t = record { before = t.before; behind = t.behind ++ zs; bytes = rw (t.bytes, append_assoc t.before (c.symbol ∷ t.behind) zs); stands = t.stands }

abbrev pub laid-past : {at o : ℕ} {xs : List ℕ} {c : ClausePlace} (p : List ℕ) → at ≡ o + length p → Laid at xs c → Laid o (p ++ xs) c
laid-past {c = c} p e t = record { before = p ++ t.before; behind = t.behind; bytes = rw (t.bytes, append_assoc p t.before (c.symbol ∷ t.behind)); stands = rw length-append (omega (arith, t.stands)) }

-- ---- statements and clauses

longer : {at : ℕ} {xs : List ℕ} {l : List ClausePlace} (zs : List ℕ) → Each (Laid at xs) l → Each (Laid at (xs ++ zs)) l
longer zs = mapped (λ c. laid-longer zs)

past : {at o : ℕ} {xs : List ℕ} {l : List ClausePlace} (p : List ℕ) → at ≡ o + length p → Each (Laid at xs) l → Each (Laid o (p ++ xs)) l
past p e = mapped (λ c. laid-past p e)

region-laid : {at : ℕ} {xs : List ℕ} {l : List ClausePlace} → Each (Laid (at + 2) xs) l → Each (Laid at (region xs)) l
unfolding region
region-laid {xs = xs} = past (length xs / 256 ∷ length xs % 256 ∷ []) refl

-- a clause's symbol byte is its first
head-laid : (h : Head) (at i m : ℕ) (zs : List ℕ) → Each (Laid at (head_bytes h m ++ zs)) (of_head h at i m)
head-laid named at i m zs = record { each = (record { before = []; behind = zs; bytes = refl; stands = omega arith }, tt) }
head-laid bare at i m zs = none

-- the symbol bytes of all clauses in a statement, and in clauses, are where they are listed
mutual
  unfolding region statement_bytes

  statement-laid : (s : Statement) (at : ℕ) → Each (Laid at (statement_bytes s)) (in_statement at s)
  statement-laid (jump l) at = none
  statement-laid (substitute ps s) at = past (1 ∷ length ps ∷ ps) (omega arith) (statement-laid s (at + 2 + length ps))
  statement-laid (extern op ps cs) at =
      rw (← (append_assoc (literal_bytes op) ps (clauses_bytes bare cs))) (past (2 ∷ operation_byte op ∷ (literal_bytes op ++ ps)) (rw length-append (omega arith)) (clauses-laid bare cs (at + 2 + length (literal_bytes op) + length ps) 0))
  statement-laid (let' t m s) at = past (3 ∷ t ∷ m ∷ []) (omega arith) (statement-laid s (at + 3))
  statement-laid (new t c cs s) at = both
      (past (4 ∷ t ∷ c ∷ clause_count cs ∷ []) (omega arith) (longer (statement_bytes s) (clauses-laid named cs (at + 4) 0)))
      (past (4 ∷ t ∷ c ∷ clause_count cs ∷ clauses_bytes named cs) (omega arith) (statement-laid s (at + 4 + length (clauses_bytes named cs))))
  statement-laid (switch t cs) at = past (5 ∷ t ∷ clause_count cs ∷ []) (omega arith) (clauses-laid named cs (at + 3) 0)
  statement-laid (invoke m) at = none

  clauses-laid : (h : Head) (cs : Clauses) (at i : ℕ) → Each (Laid at (clauses_bytes h cs)) (in_clauses h at i cs)
  clauses-laid h no_clauses at i = none
  clauses-laid h (clause m s cs) at i =
      let xs : List ℕ = region (statement_bytes s) in
      both (head-laid h at i m (xs ++ clauses_bytes h cs)) (both
      (past (head_bytes h m) refl (longer (clauses_bytes h cs) (region-laid (statement-laid s (at + length (head_bytes h m) + 2)))))
      (rw (← (append_assoc (head_bytes h m) xs (clauses_bytes h cs))) (past (head_bytes h m ++ xs) (rw (length-append (head_bytes h m) xs) (omega arith)) (clauses-laid h cs (at + length (head_bytes h m) + length xs) (suc i)))))

bodies-laid : (ss : List Statement) (at : ℕ) → Each (Laid at (bodies_bytes ss)) (in_bodies at ss)
unfolding bodies_bytes
bodies-laid [] at = none
bodies-laid (s ∷ ss) at = both
    (longer (bodies_bytes ss) (region-laid (statement-laid s (at + 2))))
    (past (region (statement_bytes s)) refl (bodies-laid ss (at + length (region (statement_bytes s)))))

-- ---- programs

-- what follows the length field stands at 3; the whole layout at 0
content-laid : (p : Program) → Each (Laid 3 (content p)) (clause_places p)
unfolding content
content-laid p =
    let xs : List ℕ = signatures_bytes p.signatures in
    let ys : List ℕ = labels_bytes p.labels in
    rw (← (append_assoc xs ys (bodies_bytes p.bodies))) (past (xs ++ ys) (rw (length-append xs ys) (omega arith)) (bodies-laid p.bodies (3 + length xs + length ys)))

layout-laid : (p : Program) → Each (Laid 0 (layout p)) (clause_places p)
unfolding layout region
layout-laid p = past (version ∷ length (content p) / 256 ∷ length (content p) % 256 ∷ []) refl (content-laid p)

-- of bytes that stand at 0, a symbol byte is the one at its offset
laid-byte : (xs : List ℕ) (c : ClausePlace) → Laid 0 xs c → At xs c.offset c.symbol
laid-byte xs c t = rw (t.stands, t.bytes, zero-add) (at-seam t.before c.symbol t.behind)

-- the layout of a program has, at the offset of every clause that is listed, that clause's symbol
pub symbol-laid : (p : Program) (n : ℕ) (c : ClausePlace) → At (clause_places p) n c → At (layout p) c.offset c.symbol
symbol-laid p n c h = laid-byte (layout p) c (all-at (Laid 0 (layout p)) (clause_places p) n (layout-laid p).each h)
