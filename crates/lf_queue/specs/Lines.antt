-- How rows and spots keep a queue. No public clause cites this module.
use Rattle.std.specs.Prelude.{Bool, List, None, ◌++◌, ◌-◌, set, Option, Some, count_by, eqb, false, filter, flat_map, get_or, length, leb, ltb, map, not, suc, true, ℕ, [], ◌&&◌, ◌<◌, ◌≡◌, ◌≤◌, ◌∷◌, if◌then◌else◌}
use Rattle.std.specs.HashMap as hash
use Rattle.std.specs.HashMap.{HashMap}
use Rattle.lf_base.specs.declared.behaviours.Job.{Job}
use Rattle.lf_base.specs.declared.ids.CownId.{CownId}
use Rattle.lf_base.specs.Names.{same_cown}
use Rattle.lf_base.specs.Sets.{Member}
use Rattle.lf_queue.specs.declared.row.Row.{Row}
use Rattle.lf_queue.specs.declared.row.Stage.{Stage}
use Rattle.lf_queue.specs.declared.row.Stage.TheVariants.{Waiting, Running, Ended}
use Rattle.lf_queue.specs.declared.spot.Spot.{Spot}
use Rattle.lf_queue.specs.Ready.{Holder}

-- ---- rows
abbrev pub is_over : Stage → Bool
is_over (Waiting job) = false
is_over Running = false
is_over Ended = true

abbrev pub is_waiting : Stage → Bool
is_waiting (Waiting job) = true
is_waiting Running = false
is_waiting Ended = false

-- a row beyond the last one: that of a job that is about to come
abbrev pub next_row : Row
next_row = record { id = 0; stage = Waiting (record { id = 0; body = 0; cowns = []; values = [] }); first = 0; end = 0; behind = 0 }

abbrev pub row_at : List Row → ℕ → Row
row_at rows p = get_or rows p next_row

abbrev pub over_at : List Row → ℕ → Bool
over_at rows p = is_over (row_at rows p).stage

abbrev pub waits_at : List Row → ℕ → Bool
waits_at rows p = is_waiting (row_at rows p).stage

-- one row in another stage
abbrev pub restaged : List Row → ℕ → Stage → List Row
restaged rows p stage = set rows p (record (row_at rows p) { stage = stage })

-- the job of a row, while it waits
abbrev pub job_in : Stage → List Job
job_in (Waiting job) = job ∷ []
job_in Running = []
job_in Ended = []

abbrev pub waiting_jobs : List Row → List Job
waiting_jobs rows = flat_map (λ row. job_in row.stage) rows

-- a row is in the set of ready ones
abbrev pub is_free : Row → Bool
is_free row = is_waiting row.stage && eqb row.behind 0

abbrev pub bit : Bool → ℕ
bit true = 1
bit false = 0

-- ---- spots
abbrev pub no_spot : Spot
no_spot = record { cown = record { birth = 0; seq = 0 }; row = 0; next = None }

abbrev pub spot_at : List Spot → ℕ → Spot
spot_at spots k = get_or spots k no_spot

abbrev pub is_next : ℕ → Option ℕ → Bool
is_next p None = false
is_next p (Some q) = eqb q p

-- the spot leads to that row
abbrev pub leads_to : ℕ → Spot → Bool
leads_to p spot = is_next p spot.next

-- the cowns of a row's spots
abbrev pub row_cowns : List Spot → ℕ → List CownId
row_cowns spots p = map (λ spot. spot.cown) (filter (λ spot. eqb spot.row p) spots)

abbrev pub holder_in : Stage → Holder → List Holder
holder_in (Waiting job) holder = []
holder_in Running holder = holder ∷ []
holder_in Ended holder = []

-- the running jobs among the rows from that place on
abbrev pub holders_from : List Spot → ℕ → List Row → List Holder
holders_from spots p [] = []
holders_from spots p (row ∷ rows) = holder_in row.stage (record { id = row.id; cowns = row_cowns spots p }) ++ holders_from spots (suc p) rows

-- that row is there, and its job isn't over
abbrev pub is_ahead : List Row → ℕ → Bool
is_ahead rows p = ltb p (length rows) && not (over_at rows p)

abbrev pub with_next : List Spot → ℕ → ℕ → List Spot
with_next spots k q = set spots k (record (spot_at spots k) { next = Some q })

-- the last spot on a line leads to the row that comes, unless its job is over or it is of that row itself
abbrev pub led_on : List Row → List Spot → Option ℕ → List Spot
led_on rows spots None = spots
led_on rows spots (Some k) = if is_ahead rows (spot_at spots k).row then with_next spots k (length rows) else spots

abbrev pub is_led : List Row → List Spot → Option ℕ → Bool
is_led rows spots None = false
is_led rows spots (Some k) = is_ahead rows (spot_at spots k).row

-- the spots with one more, of the row that comes, where that one is the last on the line
abbrev pub joined : List Row → List Spot → Option ℕ → CownId → List Spot
joined rows spots last cown = led_on rows spots last ++ record { cown = cown; row = length rows; next = None } ∷ []

-- the row to which a spot led is behind one spot less
abbrev pub lessened : List Row → Option ℕ → List Row
lessened rows None = rows
lessened rows (Some q) = set rows q (record (row_at rows q) { behind = (row_at rows q).behind - 1 })

-- it is in the set of ready ones where it is behind nothing now
abbrev pub freed : List Row → Option ℕ → List ℕ → List ℕ
freed rows None marks = marks
freed rows (Some q) marks = if eqb ((row_at rows q).behind - 1) 0 then set marks q 1 else marks

-- there is such a row, it is behind a spot, and it isn't in the set
abbrev pub CanLessen : List Row → List ℕ → Option ℕ → Type 0
CanLessen rows marks None = Unit {0}
CanLessen rows marks (Some q) = (q < length rows) × ((0 < (row_at rows q).behind) × ((q < length marks) × (get_or marks q 0 ≡ 0)))

abbrev pub without_next : List Spot → ℕ → List Spot
without_next spots k = set spots k (record (spot_at spots k) { next = None })

-- where the last spot on a line is
abbrev pub last_of : {S : Type 0} → HashMap CownId ℕ S → CownId → Option ℕ
last_of lasts c = hash.get same_cown lasts c

-- in which row a job that isn't over is
abbrev pub place_of : {S : Type 0} → HashMap ℕ ℕ S → ℕ → Option ℕ
place_of places id = hash.get eqb places id

-- the lines of the cowns, where `over` tells whether the job of a row is over, and `waits` whether it waits
pub record InLines (over waits : ℕ → Bool) (spots : List Spot) : Type 0 where
  -- a spot that leads on is that of a job that isn't over, and leads to the next row on its line
  pub ahead : (s : Spot) (q : ℕ) → Member s spots → s.next ≡ Some q → over s.row ≡ false
  pub later : (s : Spot) (q : ℕ) → Member s spots → s.next ≡ Some q → s.row < q
  pub there : (s : Spot) (q : ℕ) → Member s spots → s.next ≡ Some q → (t : Spot) × (Member t spots × ((t.row ≡ q) × (t.cown ≡ s.cown)))
  pub nearest : (s t : Spot) (q : ℕ) → Member s spots → Member t spots → s.next ≡ Some q → t.cown ≡ s.cown → s.row < t.row → q ≤ t.row
  -- each row is led to from its lines on which a job before it isn't over
  pub led : (s t : Spot) → Member s spots → Member t spots → s.cown ≡ t.cown → s.row < t.row → over s.row ≡ false
      → (u : Spot) × (Member u spots × ((u.cown ≡ t.cown) × (u.next ≡ Some t.row)))
  -- what doesn't wait is behind nothing but jobs that are over
  pub order : (s t : Spot) → Member s spots → Member t spots → s.cown ≡ t.cown → s.row < t.row → waits t.row ≡ false → over s.row ≡ true

-- the last spot on each line
pub record AreLasts (last : CownId → Option ℕ) (spots : List Spot) : Type 0 where
  pub within : (c : CownId) (k : ℕ) → last c ≡ Some k → k < length spots
  pub cown : (c : CownId) (k : ℕ) → last c ≡ Some k → (spot_at spots k).cown ≡ c
  pub latest : (c : CownId) (k : ℕ) → last c ≡ Some k → (t : Spot) → Member t spots → t.cown ≡ c → t.row ≤ (spot_at spots k).row
  pub none : (c : CownId) → last c ≡ None → (t : Spot) → Member t spots → t.cown ≡ c → ⊥

-- each row's count is that of the spots that lead to it
abbrev pub AreCounted : List Row → List Spot → Type 0
AreCounted rows spots = (p : ℕ) → p < length rows → (row_at rows p).behind ≡ count_by (leads_to p) spots

-- each row's spots stand together
pub record StandTogether (rows : List Row) (spots : List Spot) : Type 0 where
  pub range : (p k : ℕ) → p < length rows → k < length spots → eqb (spot_at spots k).row p ≡ (leb (row_at rows p).first k && ltb k (row_at rows p).end)
  pub ends : (p : ℕ) → p < length rows → (row_at rows p).end ≤ length spots
  pub begins : (p : ℕ) → p < length rows → (row_at rows p).first ≤ (row_at rows p).end
  pub rows_there : (s : Spot) → Member s spots → s.row < length rows

-- what rows have of their jobs, and where they are found
pub record HaveJobs (rows : List Row) (spots : List Spot) (place : ℕ → Option ℕ) : Type 0 where
  pub rising : (p q : ℕ) → p < q → q < length rows → over_at rows p ≡ false → over_at rows q ≡ false → (row_at rows p).id < (row_at rows q).id
  pub number : (p : ℕ) (job : Job) → p < length rows → (row_at rows p).stage ≡ Waiting job → job.id ≡ (row_at rows p).id
  pub cowns : (p : ℕ) (job : Job) → p < length rows → (row_at rows p).stage ≡ Waiting job → job.cowns ≡ row_cowns spots p
  pub leads : (id p : ℕ) → place id ≡ Some p → (p < length rows) × ((over_at rows p ≡ false) × ((row_at rows p).id ≡ id))
  pub found : (p : ℕ) → p < length rows → over_at rows p ≡ false → place (row_at rows p).id ≡ Some p

-- the set has just the rows that wait behind nothing
pub record AreMarked (rows : List Row) (set : List ℕ) : Type 0 where
  pub marks : (p : ℕ) → p < length rows → get_or set p 0 ≡ bit (is_free (row_at rows p))
  pub beyond : (p : ℕ) → length rows ≤ p → get_or set p 0 ≡ 0

pub record KeepsJobs (rows : List Row) (spots : List Spot) (last : CownId → Option ℕ) (place : ℕ → Option ℕ) (set : List ℕ) : Type 0 where
  pub lines : InLines (over_at rows) (waits_at rows) spots
  pub lasts : AreLasts last spots
  pub counted : AreCounted rows spots
  pub together : StandTogether rows spots
  pub jobs : HaveJobs rows spots place
  pub marked : AreMarked rows set
