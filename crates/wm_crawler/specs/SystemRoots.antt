-- What contracts see of the folders of a system of files.
use Rattle.wm_crawler.specs.declared.roots.SystemFolders.{SystemFolders}

-- the files that they are read by
abbrev pub files_behind : {F : Type 0} → SystemFolders F → F
files_behind folders = folders.files
