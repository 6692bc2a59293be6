-- What a task says.
use Rattle.task.specs.declared.task.Task.{Task}
use Rattle.task.specs.Contents.{TaskContents}
use Rattle.task.specs.Drafts.{draft_contents}

abbrev pub contents : Task → TaskContents
contents t = draft_contents t.draft
